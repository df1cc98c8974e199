pub mod Rest
pub mod LaneLoops
