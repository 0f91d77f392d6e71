pub mod Message
pub mod Read
pub mod Acts
pub mod Trials
