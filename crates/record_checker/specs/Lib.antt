pub mod Errors
pub mod OnTheWay
