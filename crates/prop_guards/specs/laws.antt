pub mod Both
pub mod KnownLaws
pub mod KitLaws
pub mod WideLaws
pub mod ExcluderLaws
