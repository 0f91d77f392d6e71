pub mod Table
pub mod Message
pub mod Written
pub mod Stands
pub mod Shape
pub mod Opcode
pub mod Fields
