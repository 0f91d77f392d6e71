pub mod Sent
pub mod Begun
