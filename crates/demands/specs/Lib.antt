pub mod BlocksIn
pub mod Faulted
pub mod InSpi
pub mod Refused
pub mod RefusedOnBus
pub mod Silenced
