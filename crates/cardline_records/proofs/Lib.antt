pub mod Lending
pub mod Lengths
pub mod Pieces
pub mod Reading
pub mod Sending
pub mod WrongAnswers
