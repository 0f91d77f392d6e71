pub mod Call
pub mod Touch
