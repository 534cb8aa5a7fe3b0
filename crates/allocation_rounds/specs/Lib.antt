pub mod Rounds
pub mod Promises
pub mod Lent
pub mod Answers
pub mod Watch
