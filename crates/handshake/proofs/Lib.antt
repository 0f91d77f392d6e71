pub mod Reports
pub mod Cases
pub mod Answers
pub mod Runs
mod Trials
