pub mod Laws
pub mod Lines
pub mod Made
pub mod Playing
pub mod Steps
pub mod WrongAnswers
