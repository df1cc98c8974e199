-- The laws behind the test of a state, and that it is 01's.
pub mod Entries
pub mod WellFormed
