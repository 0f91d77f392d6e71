pub mod Plans
pub mod Devices
