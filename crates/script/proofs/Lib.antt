pub mod Words
pub mod Numbers
pub mod Table
pub mod Values
pub mod Texts
pub mod Lines
pub mod Examples
