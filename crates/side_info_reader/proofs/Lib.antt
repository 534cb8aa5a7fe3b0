pub mod ReaderLaws
pub mod SectionLaws
pub mod ThreeLaws
pub mod AnswerLaws
