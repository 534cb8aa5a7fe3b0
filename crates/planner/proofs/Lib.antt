pub mod NoteLaws
pub mod PlanLaws
