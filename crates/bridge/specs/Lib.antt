pub mod Decoded
pub mod View
pub mod Fits
pub mod Run
