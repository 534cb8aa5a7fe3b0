pub mod Word
pub mod Line
