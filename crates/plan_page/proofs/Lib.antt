pub mod Lengths
pub mod PageLaws
pub mod RowLaws
pub mod Examples
