pub mod Next
pub mod Texts
