pub mod CanSteer
pub mod Control
