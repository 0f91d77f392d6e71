pub mod Tables
pub mod Entries
pub mod Edits
pub mod Room
