pub mod ChoiceLists
pub mod Origins
pub mod inner
