-- The arms of the rows.
pub mod Rows
pub mod Reached
