pub mod Lines
pub mod Refusal
pub mod Held
