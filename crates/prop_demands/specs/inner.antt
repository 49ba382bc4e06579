pub mod Palettes
pub mod Glossaries
pub mod Fitting
pub mod Postings
pub mod Laws
