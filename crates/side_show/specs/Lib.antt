pub mod Notes
pub mod Side
