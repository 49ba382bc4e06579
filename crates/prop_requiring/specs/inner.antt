pub mod Parts
pub mod Puttings
pub mod Requirers
