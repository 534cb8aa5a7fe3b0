pub mod RowLaws
pub mod KeptLaws
