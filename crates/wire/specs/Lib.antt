pub mod Ids
pub mod Bits
pub mod Record
pub mod Fields
pub mod Put
