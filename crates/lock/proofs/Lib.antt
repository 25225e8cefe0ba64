pub mod Carried
pub mod Laws
pub mod Same
pub mod Sequences
pub mod Stored
pub mod WrongAnswers
