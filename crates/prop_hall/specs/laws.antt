pub mod HullLaws
pub mod SelectionLaws
pub mod MergeLaws
pub mod PigeonLaws
pub mod ExcludingLaws
pub mod ExcluderLaws
