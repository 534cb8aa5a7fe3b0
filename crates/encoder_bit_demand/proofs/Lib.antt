pub mod SnrLaws
pub mod RowSnr
pub mod DemandLaws
