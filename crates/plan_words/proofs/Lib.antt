pub mod WordLaws
pub mod NamedLaws
pub mod OptionLaws
pub mod LineLaws
pub mod Examples
