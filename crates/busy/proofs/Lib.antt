pub mod Insertion
pub mod Adding
pub mod Ranking
pub mod SumLaws
pub mod Counted
pub mod Worked
