pub mod Arguments
pub mod Replies
pub mod Parts
