pub mod Answers
pub mod Arguments
pub mod Command
pub mod Obey
