pub mod Given
pub mod Begun
pub mod Texts
