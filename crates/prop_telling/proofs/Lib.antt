pub mod TellingLemmas
pub mod NotingLemmas
pub mod PostingLemmas
pub mod ListingLemmas
pub mod HowLemmas
