pub mod Words
pub mod Replies
pub mod Messages
