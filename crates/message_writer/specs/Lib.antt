pub mod Number
pub mod Puts
