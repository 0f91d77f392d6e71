pub mod Unlent
