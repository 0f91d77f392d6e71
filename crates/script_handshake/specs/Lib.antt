pub mod Shaken
