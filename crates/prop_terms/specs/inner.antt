pub mod Machine
pub mod Parts
