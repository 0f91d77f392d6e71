pub mod Record
pub mod Handed
pub mod Agrees
pub mod Texts
