pub mod ChosenLaws
pub mod ImageLaws
pub mod NarrowestLaws
pub mod OtherLaws
pub mod TruthLaws
