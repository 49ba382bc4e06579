pub mod Decimals
pub mod RefusalLemmas
