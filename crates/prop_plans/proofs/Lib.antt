pub mod Held
pub mod Values
pub mod Planned
