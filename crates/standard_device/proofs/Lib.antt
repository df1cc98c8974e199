pub mod Whole
pub mod Laws
pub mod Cases
pub mod Classes
pub mod Values
