pub mod CornerLemmas
pub mod ExactLaws
pub mod TableLemmas
