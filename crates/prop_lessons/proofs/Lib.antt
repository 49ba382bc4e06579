pub mod PairLemmas
pub mod BeginLemmas
pub mod GoneLemmas
pub mod StandLemmas
