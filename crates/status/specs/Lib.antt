pub mod Bits
pub mod ErrorBits
pub mod Status
