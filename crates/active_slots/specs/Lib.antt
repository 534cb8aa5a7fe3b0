pub mod Slots
pub mod Active
