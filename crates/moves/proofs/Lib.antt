pub mod Among
pub mod Laws
pub mod Numbers
pub mod Orders
pub mod Spans
pub mod Tables
pub mod WrongAnswers
