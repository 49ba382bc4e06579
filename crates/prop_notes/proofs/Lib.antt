pub mod TextLemmas
pub mod NoteLemmas
pub mod NamingLemmas
