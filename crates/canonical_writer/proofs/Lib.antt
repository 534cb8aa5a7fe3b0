pub mod ChosenLaws
pub mod AnswerLaws
