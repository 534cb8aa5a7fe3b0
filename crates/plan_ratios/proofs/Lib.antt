pub mod DecimalLaws
pub mod RatioLaws
pub mod TokenLaws
pub mod AnswerLaws
pub mod WalkLaws
pub mod Examples
pub mod LineLaws
pub mod PartLaws
