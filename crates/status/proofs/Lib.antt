pub mod Bits
pub mod ErrorTheorems
pub mod Fields
pub mod WordTheorems
pub mod WrongAnswers
