pub mod HeldLaws
pub mod RuleLaws
pub mod LaidLaws
pub mod RunLaws
