pub mod Ordered
pub mod Settlements
pub mod Positions
pub mod Statuses
mod Endpoints
mod Holders
mod Owners
mod Setups
pub mod Pieces
pub mod Ends
pub mod Counts
pub mod Names
pub mod Out
pub mod Kept
pub mod Plain
pub mod Seen
pub mod Shown
pub mod Stands
pub mod Weights
