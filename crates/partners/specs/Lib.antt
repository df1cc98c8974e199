pub mod Columns
pub mod Pass
pub mod Read
