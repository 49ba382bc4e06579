pub mod AskLemmas
pub mod DefineLemmas
pub mod PostLemmas
pub mod Starting
