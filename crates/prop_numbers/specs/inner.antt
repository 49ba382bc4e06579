pub mod Words
pub mod NumberSets
