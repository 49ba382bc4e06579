pub mod Trials
pub mod Explorers
