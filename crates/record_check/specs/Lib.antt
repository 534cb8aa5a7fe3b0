pub mod Together
pub mod Check
