pub mod Reply
pub mod Numbers
pub mod Delivery
pub mod Handshake
pub mod Message
pub mod Events
