pub mod NoteLaws
pub mod SideLaws
