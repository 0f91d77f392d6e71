pub mod Writes
pub mod Objects
pub mod Announced
pub mod Named
pub mod NewSeat
pub mod NewDevice
pub mod Seen
