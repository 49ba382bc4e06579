pub mod Parts
pub mod PartLaws
pub mod OrderLaws
