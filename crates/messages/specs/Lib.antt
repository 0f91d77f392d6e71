pub mod Reading
pub mod Received
pub mod Same
pub mod Single
pub mod Trials
pub mod Texts
