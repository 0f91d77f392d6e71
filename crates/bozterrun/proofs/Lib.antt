pub mod Cases
pub mod Unlent
