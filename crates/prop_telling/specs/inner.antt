pub mod Telling
pub mod Posting
pub mod How
