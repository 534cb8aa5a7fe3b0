pub mod Fewest
pub mod Canonical
