pub mod NumberLaws
pub mod FieldLaws
pub mod ServedLaws
pub mod HeaderLaws
pub mod WireLaws
pub mod SumLaws
pub mod RowLaws
