pub mod Lines
pub mod Pages
pub mod Text
pub mod Words
pub mod Writing
