pub mod Names
pub mod Ties
pub mod Truths
pub mod Words
