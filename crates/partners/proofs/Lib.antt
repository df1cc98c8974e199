-- The laws of the pass, in reading order.
pub mod Pairs
pub mod Frames
pub mod Kept
pub mod Marks
pub mod Stored
pub mod Lent
pub mod Whole
pub mod Odd
