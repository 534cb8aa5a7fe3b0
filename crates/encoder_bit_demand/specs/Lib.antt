pub mod Snr
pub mod Demand
pub mod OnTheWay
