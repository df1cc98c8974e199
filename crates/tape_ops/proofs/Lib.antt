pub mod One
pub mod Room
