pub mod Seekers
pub mod Pieces
pub mod Bounds
pub mod Explored
