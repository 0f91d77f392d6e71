pub mod Request
pub mod Records
pub mod Answer
