pub mod Hand
pub mod Piece
pub mod Turning
