pub mod SumLaws
pub mod EntryLaws
pub mod ExtremeLaws
pub mod RowLaws
pub mod GuardLaws
