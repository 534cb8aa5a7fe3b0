pub mod Class
pub mod TableC4
pub mod Select
pub mod Storage
