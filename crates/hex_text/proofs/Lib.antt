pub mod DigitLaws
pub mod WalkLaws
pub mod Examples
