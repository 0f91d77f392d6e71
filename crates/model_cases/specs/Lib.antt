pub mod Line
pub mod Framed
