pub mod Scfsi
pub mod Record
