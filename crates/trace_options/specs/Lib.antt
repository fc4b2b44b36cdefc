pub mod CommandLine
pub mod Inputs
pub mod Status
