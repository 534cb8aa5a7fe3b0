pub mod Rule
pub mod Listed
pub mod Search
pub mod Keys
pub mod Descent
pub mod FromFn
