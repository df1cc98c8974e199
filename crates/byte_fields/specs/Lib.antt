pub mod Bytes
pub mod Storage
