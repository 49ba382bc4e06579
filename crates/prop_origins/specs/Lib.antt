pub mod Founded
pub mod Parts
pub mod Pruned
pub mod Whole
pub mod inner
