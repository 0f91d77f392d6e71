pub mod Decisions
pub mod Enactings
pub mod Handling
pub mod Peers
