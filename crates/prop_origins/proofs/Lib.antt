pub mod Founding
pub mod LineLaws
pub mod LogLaws
pub mod Proceeding
pub mod PrunedLaws
