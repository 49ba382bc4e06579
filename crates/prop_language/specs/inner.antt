pub mod Digits
pub mod Judged
pub mod Lines
pub mod Forms
pub mod Parsing
pub mod Parts
pub mod Grammar
