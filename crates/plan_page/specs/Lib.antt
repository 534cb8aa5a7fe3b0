pub mod Rows
pub mod Charged
pub mod Page
pub mod Shown
