pub mod Table
pub mod Control
pub mod Sound
pub mod Shift
pub mod Change
