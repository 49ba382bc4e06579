pub mod Irreducible
pub mod Trying
pub mod inner
