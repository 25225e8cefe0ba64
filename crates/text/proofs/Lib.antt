pub mod Digits
pub mod Lengths
pub mod Pages
pub mod Pairs
pub mod Shown
pub mod Writing
pub mod WrongAnswers
