-- The ten calls: the core refuses what the definitions refuse, for the same reason, and else does what they do.
pub mod Tables
pub mod Refusals
pub mod Tests
pub mod Openings
pub mod Claims
pub mod Submissions
pub mod ClearedHalts
pub mod Asks
pub mod Verdicts
pub mod Whole
