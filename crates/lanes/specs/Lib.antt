pub mod Int
pub mod Float
pub mod Lane
pub mod Steps
