pub mod WordLaws
pub mod WrittenLaws
pub mod ReadLaws
