-- The laws of the ops that steer.
pub mod Partners
pub mod Meant
