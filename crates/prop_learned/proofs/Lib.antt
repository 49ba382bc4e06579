pub mod SlotLemmas
pub mod WeighingLemmas
