pub mod Fresh
pub mod Calls
