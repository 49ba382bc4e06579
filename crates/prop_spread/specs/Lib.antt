pub mod Spreads
pub mod Proposals
