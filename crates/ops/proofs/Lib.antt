pub mod Room
pub mod AnyFile
pub mod Cases
