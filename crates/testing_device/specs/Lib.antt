pub mod Answers
pub mod Device
pub mod Room
pub mod Channel
