pub mod Data
pub mod Rooms
pub mod Back
pub mod Sides
pub mod Problems
pub mod Reach
pub mod Forgetting
