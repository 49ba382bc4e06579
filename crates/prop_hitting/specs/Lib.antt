pub mod Hitting
pub mod Costs
pub mod Cheapest
pub mod Frontiers
pub mod inner
