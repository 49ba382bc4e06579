pub mod Words
pub mod Acts
pub mod Kinds
pub mod Posting
pub mod Foreseeing
pub mod Palette
pub mod inner
