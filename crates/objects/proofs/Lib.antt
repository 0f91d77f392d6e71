pub mod Listing
pub mod Lives
