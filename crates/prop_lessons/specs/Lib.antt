pub mod Lessons
pub mod inner
