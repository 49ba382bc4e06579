pub mod Weighing
pub mod Stores
pub mod inner
