pub mod Gains
pub mod Values
