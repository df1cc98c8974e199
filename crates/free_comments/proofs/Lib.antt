-- The laws of comments, in reading order.
pub mod Skips
pub mod Searches
pub mod Steps
pub mod Laws
pub mod One
pub mod Bare
pub mod Cases
