pub mod Numbers
pub mod Bytes
pub mod Sending
pub mod Names
pub mod Arguments
pub mod Reduced
pub mod Normal
