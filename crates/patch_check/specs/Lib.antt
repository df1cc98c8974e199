pub mod Rules
pub mod Check
pub mod File
pub mod Rows
