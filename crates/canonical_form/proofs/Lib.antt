pub mod FewestLaws
pub mod AgreeLaws
pub mod NumberLaws
pub mod BareLaws
pub mod PromiseLaws
