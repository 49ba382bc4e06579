pub mod Parts
pub mod Roots
