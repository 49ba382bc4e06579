pub mod Facts
pub mod Changing
