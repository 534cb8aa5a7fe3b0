pub mod Rounding
pub mod Codes
pub mod Grouping
pub mod Answers
