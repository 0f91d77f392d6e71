pub mod Seats
pub mod Disconnects
pub mod Interfaces
