pub mod Lists
pub mod Supporting
pub mod Trimming
pub mod DroppingLaws
pub mod KnowingLaws
pub mod BearingLemmas
