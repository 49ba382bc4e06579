pub mod Host
pub mod Answered
pub mod laws
