pub mod CostLaws
pub mod AnswerLaws
