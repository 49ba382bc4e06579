pub mod Latest
pub mod Unrolling
pub mod Walking
pub mod WellMade
pub mod Sparing
pub mod Shorter
pub mod Sizes
pub mod Ranges
mod Expanded
mod Firsts
pub mod Scoping
mod Using
mod Placing
mod Frames
mod Zips
mod Spans
mod Looping
pub mod InPlace
pub mod Judging
pub mod Resolved
pub mod ByNumber
pub mod ByName
