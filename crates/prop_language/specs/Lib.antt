pub mod Tokens
pub mod Names
pub mod Commands
pub mod Spelling
pub mod Reading
pub mod Said
pub mod inner
