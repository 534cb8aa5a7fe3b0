pub mod RowLaws
pub mod NearestLaws
pub mod Examples
