pub mod Held
pub mod Payloads
pub mod CanStep
pub mod Step
