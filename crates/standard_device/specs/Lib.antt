pub mod Root
pub mod Post
pub mod Bindings
