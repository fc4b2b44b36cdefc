pub mod Reports
pub mod Begun
mod JudgedRuns
mod Living
mod Unlived
mod Sources
mod Words
mod Outcomes
mod OneDevice
