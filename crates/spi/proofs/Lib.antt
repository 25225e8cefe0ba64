pub mod Decided
pub mod Laws
pub mod WrongAnswers
