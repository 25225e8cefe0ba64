pub mod Cases
pub mod Copying
pub mod Numbers
pub mod Output
pub mod Span
pub mod Table
pub mod WrongAnswers
