pub mod ReducingLaws
pub mod TryingLaws
