pub mod Taken
pub mod Reading
pub mod Read
pub mod Passes
