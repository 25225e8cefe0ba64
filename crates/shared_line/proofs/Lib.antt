pub mod Arbitration
pub mod Numbers
pub mod Orders
pub mod Together
pub mod WrongAnswers
