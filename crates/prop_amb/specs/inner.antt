pub mod Ahead
pub mod Joined
pub mod Refuting
pub mod Settling
pub mod Stepping
pub mod Trying
pub mod Refuted
