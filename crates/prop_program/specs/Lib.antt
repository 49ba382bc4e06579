pub mod Program
pub mod Faults
pub mod Answering
pub mod Running
pub mod inner
