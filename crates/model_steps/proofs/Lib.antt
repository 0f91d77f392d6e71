pub mod Counted
pub mod Steps
