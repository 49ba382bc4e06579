pub mod Extensions
pub mod ByEnd
