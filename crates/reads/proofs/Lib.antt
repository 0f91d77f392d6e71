pub mod Parts
pub mod Records
pub mod Laws
pub mod Agreed
pub mod Texts
