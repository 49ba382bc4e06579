pub mod WideLemmas
pub mod ClipLemmas
pub mod RootLemmas
