pub mod Formed
pub mod Zeros
