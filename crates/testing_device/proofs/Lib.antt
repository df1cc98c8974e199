-- Laws of the device that more than one proof cites, in reading order.
pub mod Words
pub mod Rings
pub mod Inputs
pub mod Outputs
pub mod Cases
