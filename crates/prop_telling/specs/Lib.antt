pub mod Asking
pub mod Texts
pub mod Listing
pub mod How
pub mod Telling
pub mod Posting
pub mod inner
pub mod laws
