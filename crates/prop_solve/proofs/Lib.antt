pub mod SearchLemmas
pub mod EarlierLemmas
