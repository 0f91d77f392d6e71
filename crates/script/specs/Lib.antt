pub mod Words
pub mod Number
pub mod Verbs
pub mod Text
pub mod Script
pub mod Told
pub mod Split
