pub mod Put
pub mod Digits
pub mod Words
pub mod Pattern
