pub mod Bus
pub mod Contest
pub mod Hearing
pub mod OnLine
