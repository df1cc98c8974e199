pub mod Limits
pub mod Pick
