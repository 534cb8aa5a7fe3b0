pub mod WriterLaws
pub mod PartLaws
pub mod PlaceLaws
pub mod AskedLaws
pub mod WholeLaws
