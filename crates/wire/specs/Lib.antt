pub mod Blocks
pub mod Flipped
pub mod Frames
pub mod Responses
