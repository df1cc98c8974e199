pub mod Asks
pub mod Numbers
pub mod Parts
