pub mod Classes
pub mod Indices
pub mod Moves
pub mod Rows
pub mod Table
