pub mod Decimal
pub mod Listed
pub mod Search
pub mod Scalefactors
pub mod Sum
