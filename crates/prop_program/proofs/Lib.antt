pub mod Starts
pub mod Listing
pub mod Taken
pub mod Declining
