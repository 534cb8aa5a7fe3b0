pub mod Ratio
pub mod Tokens
pub mod Ratios
pub mod Walk
