pub mod Asking
pub mod Requiring
pub mod Answering
pub mod inner
pub mod laws
