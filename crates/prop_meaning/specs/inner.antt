pub mod Steps
pub mod Drafts
pub mod Spans
pub mod Formulas
pub mod Lists
pub mod Expanding
pub mod Tables
pub mod Relating
