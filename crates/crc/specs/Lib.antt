pub mod Bits
pub mod Crc
pub mod Flip
pub mod Remainder
pub mod Table
