-- The bridge from a step and a run as the code makes them to the model's, in reading order.
pub mod Lists
pub mod Over
pub mod Lanes
pub mod Tape
pub mod Control
pub mod Device
pub mod Families
pub mod Decoded
pub mod Steps
pub mod Real
pub mod Runs
pub mod LaidEachStep
pub mod Partners
