pub mod Alone
pub mod Faults
pub mod Reset
pub mod Sends
pub mod Verdict
pub mod WrongAnswers
