pub mod Handshake
pub mod View
pub mod Run
