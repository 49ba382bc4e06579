pub mod Stores
pub mod Endings
