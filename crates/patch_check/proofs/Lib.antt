pub mod CheckLoop
pub mod RowsAreOps
pub mod Loaded
