pub mod Sendable
pub mod Handshake
