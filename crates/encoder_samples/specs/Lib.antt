pub mod Samples
pub mod Entries
pub mod Half
