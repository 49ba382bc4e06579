pub mod Queues
pub mod Narrowing
pub mod Windows
pub mod Places
pub mod Trails
pub mod Sayings
pub mod inner
