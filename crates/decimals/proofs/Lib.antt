-- Laws of numbers in the input that more than one proof cites, in reading order.
pub mod Ends
pub mod Reading
pub mod Quotients
pub mod Texts
