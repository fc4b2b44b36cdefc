-- Bounds of what waits for one endpoint, and of how often a transfer was submitted before.
pub mod Items
pub mod Paused
pub mod Waits
pub mod Runs
