pub mod Levels
pub mod Terms
pub mod Tokens
pub mod Forming
pub mod Meaning
pub mod Writing
pub mod Printing
pub mod inner
