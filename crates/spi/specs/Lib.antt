pub mod Answering
pub mod Answers
pub mod Hearing
