pub mod BitLaws
pub mod PackLaws
