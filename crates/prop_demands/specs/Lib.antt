pub mod Naming
pub mod Demanding
pub mod Foreseeing
pub mod Refusing
pub mod inner
