pub mod Places
pub mod Nogoods
pub mod Calls
pub mod Steps
pub mod laws
