pub mod Admitted
pub mod Both
