pub mod CheapestLemmas
pub mod FitLemmas
pub mod TrialLemmas
pub mod ExploringLemmas
