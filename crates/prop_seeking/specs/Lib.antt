pub mod Asking
pub mod Plans
pub mod Texts
pub mod Seeking
pub mod Answering
pub mod inner
pub mod laws
