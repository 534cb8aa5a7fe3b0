pub mod Line
pub mod Number
pub mod Decibels
pub mod Page
