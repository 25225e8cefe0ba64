pub mod HexText
pub mod Reading
