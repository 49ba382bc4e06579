pub mod Items
pub mod Circuits
pub mod Intervals
pub mod Steps
pub mod Tables
