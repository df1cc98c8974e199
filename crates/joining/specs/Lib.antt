pub mod Source
pub mod Join
pub mod Stack
pub mod Joined
pub mod Handed
