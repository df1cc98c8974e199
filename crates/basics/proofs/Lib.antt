-- The general laws, in reading order.
pub mod Clash
pub mod Tests
pub mod Tables
