pub mod SameEnds
pub mod Tables
