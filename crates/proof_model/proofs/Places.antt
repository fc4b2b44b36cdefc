-- Places: each transfer of a handle is in one place, none lost and none doubled.
pub mod Exact
pub mod Placed
pub mod Runs
