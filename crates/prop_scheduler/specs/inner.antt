pub mod Agendas
pub mod Making
pub mod Potential
