pub mod Chars
pub mod Decimal
pub mod Post
pub mod Text
