pub mod Marks
pub mod Slots
pub mod Scans
