pub mod Sets
pub mod Signatures
pub mod Changes
pub mod Words
pub mod inner
