pub mod Sums
pub mod Tally
pub mod Busiest
pub mod Order
