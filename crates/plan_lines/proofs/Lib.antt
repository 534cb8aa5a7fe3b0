pub mod Lengths
pub mod Examples
pub mod BudgetLaws
pub mod ToldLaws
