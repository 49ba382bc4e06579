pub mod Questions
pub mod Searches
pub mod Answers
pub mod Leaving
