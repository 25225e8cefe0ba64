pub mod Lines
pub mod Looks
pub mod Wires
pub mod Words
