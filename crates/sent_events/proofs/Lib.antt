pub mod Plans
pub mod Sessions
pub mod Makers
pub mod Handshakes
pub mod Examples
