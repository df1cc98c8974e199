pub mod Storage
pub mod ValuesAt
pub mod TextAt
pub mod Written
