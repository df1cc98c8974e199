-- The machine: its state, the searches of the patch, a step, a run, and the well-formed state.
pub mod State
pub mod Scan
pub mod Step
pub mod Passed
pub mod Run
pub mod Missing
pub mod Formed
pub mod Modes
pub mod Limited
pub mod Words
