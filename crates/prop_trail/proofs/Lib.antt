pub mod FlagLaws
pub mod WordLaws
pub mod WindowLaws
pub mod TrailLaws
pub mod NarrowingLaws
pub mod SayLaws
pub mod GrowLaws
pub mod MakerLaws
