pub mod Puts
pub mod Lines
pub mod Words
pub mod Decimals
pub mod Patterns
pub mod Letters
pub mod Lengths
