pub mod Beliefs
pub mod Kept
pub mod Values
pub mod inner
