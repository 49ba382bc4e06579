pub mod PremiseLemmas
pub mod SidingLemmas
pub mod StayLemmas
