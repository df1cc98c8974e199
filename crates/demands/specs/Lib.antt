pub mod Reached
pub mod ReachedBy
pub mod AnyCalls
pub mod CameTo
