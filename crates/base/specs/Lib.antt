pub mod Choice
pub mod Numbered
pub mod Output
pub mod Refusals
pub mod Sizes
