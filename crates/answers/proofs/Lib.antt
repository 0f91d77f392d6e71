pub mod Meetings
pub mod Checks
pub mod Texts
