pub mod ClassLaws
pub mod TableLaws
pub mod SelectLaws
