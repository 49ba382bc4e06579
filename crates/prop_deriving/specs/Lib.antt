pub mod Known
pub mod Sidings
pub mod laws
