pub mod ListingLemmas
pub mod CostLemmas
pub mod HittingLemmas
pub mod NodeLemmas
