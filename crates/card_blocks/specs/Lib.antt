pub mod BlockIn
pub mod BlockOut
pub mod Framing
pub mod Lending
pub mod Replies
