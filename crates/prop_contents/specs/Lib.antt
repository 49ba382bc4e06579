pub mod Contents
pub mod Changes
pub mod Knowing
pub mod inner
