pub mod Bytes
pub mod Splices
pub mod Ids
pub mod Records
pub mod Trials
