pub mod Blamers
