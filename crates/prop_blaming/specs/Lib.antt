pub mod Weighing
pub mod Asking
pub mod Texts
pub mod Blame
pub mod Blaming
pub mod Answering
pub mod inner
pub mod laws
