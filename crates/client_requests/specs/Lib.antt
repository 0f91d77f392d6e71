pub mod Decision
pub mod Queueing
