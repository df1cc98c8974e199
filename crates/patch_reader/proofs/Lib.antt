pub mod Whole
pub mod Reading
pub mod Mapped
