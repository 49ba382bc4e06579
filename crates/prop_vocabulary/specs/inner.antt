pub mod Between
pub mod Named
pub mod SetBits
pub mod TextParts
pub mod Truth
