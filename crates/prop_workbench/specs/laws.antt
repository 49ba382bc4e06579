pub mod RefusalLaws
pub mod MachineLaws
