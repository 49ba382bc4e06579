pub mod ChoiceLists
pub mod Named
pub mod Origins
