pub mod Options
pub mod Tables
pub mod Storage
pub mod Kept
