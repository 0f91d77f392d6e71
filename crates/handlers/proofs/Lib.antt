pub mod Plain
pub mod Timed
