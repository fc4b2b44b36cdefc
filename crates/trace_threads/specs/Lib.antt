pub mod AtRest
pub mod Callbacks
pub mod Calls
pub mod Unfinished
pub mod Verdicts
