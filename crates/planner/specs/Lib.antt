pub mod Notes
pub mod Planner
