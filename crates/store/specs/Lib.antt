pub mod Erase
pub mod Lent
pub mod Map
pub mod Memory
