pub mod RefusalLaws
pub mod WalkLaws
pub mod AnswerLaws
