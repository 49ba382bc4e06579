pub mod Singles
pub mod Kit
pub mod Wide
pub mod Networks
