pub mod Singles
pub mod Making
pub mod Palette
