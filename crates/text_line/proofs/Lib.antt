pub mod LineLaws
pub mod NumberLaws
pub mod DecibelsLaws
pub mod Examples
pub mod PageLaws
