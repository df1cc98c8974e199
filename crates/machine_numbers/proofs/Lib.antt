pub mod Parts
pub mod Had
pub mod Families
