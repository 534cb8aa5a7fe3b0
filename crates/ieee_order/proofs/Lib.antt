pub mod Fraction
pub mod Order
pub mod Fitting
pub mod Rounded
pub mod Difference
pub mod Extremes
pub mod Magnitude
