mod Records
mod Answered
pub mod Verdicts
