-- The laws behind the machine's calls, in reading order.
pub mod Called
pub mod HandedOn
pub mod StepIsARun
