pub mod PlaceLemmas
pub mod MeetLemmas
pub mod CallLemmas
pub mod SideLemmas
pub mod HoleLemmas
pub mod StepLemmas
pub mod RowLemmas
pub mod ExceptLemmas
