-- Shares of answers: what an open one is, and what one more answer makes of it.
pub mod Outcome
pub mod OpenShares
pub mod More
pub mod Next
pub mod Cuts
