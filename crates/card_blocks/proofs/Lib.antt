pub mod Framed
pub mod Laying
pub mod Outcomes
pub mod WrongAnswers
