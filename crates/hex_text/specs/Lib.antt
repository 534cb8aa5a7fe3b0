pub mod Hex
pub mod Walk
