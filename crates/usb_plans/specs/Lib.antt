pub mod PlanRuns
pub mod Drives
pub mod Alone
