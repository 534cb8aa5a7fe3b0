pub mod Allocation
pub mod OnTheWay
