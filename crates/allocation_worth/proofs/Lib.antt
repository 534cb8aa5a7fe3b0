pub mod StandingLaws
pub mod WorthLaws
