pub mod Tables
pub mod Moves
