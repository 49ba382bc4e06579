pub mod WeighLemmas
pub mod AskLemmas
pub mod SayLemmas
pub mod Starting
pub mod StayLemmas
