pub mod Guards
pub mod Known
pub mod Kit
pub mod Wide
pub mod Excluder
pub mod laws
