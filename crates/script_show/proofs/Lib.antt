pub mod Numbers
pub mod Sizes
pub mod Examples
pub mod Fits
