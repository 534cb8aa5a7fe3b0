pub mod Written
pub mod BitWriter
pub mod OnTheWay
