pub mod BudgetLaws
pub mod AvailableLaws
