pub mod EqualActs
pub mod Trials
