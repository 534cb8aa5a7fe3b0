pub mod Bytes
pub mod Digits
pub mod Quoted
pub mod Lines
pub mod Table
