pub mod Ahead
pub mod Errors
pub mod BitReader
pub mod OnTheWay
