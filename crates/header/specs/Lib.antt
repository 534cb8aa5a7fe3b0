pub mod Questions
pub mod Header
