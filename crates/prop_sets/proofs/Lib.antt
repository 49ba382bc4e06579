pub mod ImageLemmas
pub mod NameLemmas
pub mod RelationLemmas
pub mod TruthLemmas
pub mod UnionLemmas
pub mod TieLemmas
