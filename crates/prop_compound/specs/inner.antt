pub mod Expansion
pub mod Defining
pub mod Shortcuts
pub mod Kept
pub mod Flattened
pub mod Frames
pub mod Compounds
