pub mod Syntax
pub mod Refusals
pub mod Record
pub mod Patch
pub mod Decode
pub mod Write
