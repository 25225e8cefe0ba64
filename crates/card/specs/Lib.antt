pub mod Frame
pub mod Step
