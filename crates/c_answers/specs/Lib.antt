pub mod Answers
pub mod Arguments
pub mod Refusals
pub mod Replies
pub mod Told
pub mod Version
