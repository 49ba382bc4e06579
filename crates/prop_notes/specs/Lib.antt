pub mod Texts
pub mod Notes
pub mod Naming
pub mod inner
