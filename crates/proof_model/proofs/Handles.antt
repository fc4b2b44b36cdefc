-- Handles: what one sees of the world is what it sees alone.
pub mod Changes
pub mod Fair
pub mod Isolation
pub mod Runs
pub mod Beginnings
pub mod Alone
