pub mod Clones
pub mod Demand3
pub mod Distinct
pub mod MadeBus
