pub mod Events
pub mod Announce
