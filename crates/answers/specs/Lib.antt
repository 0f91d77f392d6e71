pub mod Answer
pub mod Check
pub mod Texts
pub mod Meets
pub mod Kept
pub mod Promise
