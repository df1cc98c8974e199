pub mod Run
pub mod Check
pub mod Join
pub mod Flatten
