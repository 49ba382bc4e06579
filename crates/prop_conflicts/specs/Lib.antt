pub mod Conflicts
pub mod inner
pub mod Cheapest
