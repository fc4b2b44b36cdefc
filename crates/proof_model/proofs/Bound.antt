-- The bound: a transfer that is asked to end, ends by the seventeenth Deliver of its endpoint.
pub mod Due
pub mod Delivers
pub mod Serves
pub mod Keeps
pub mod Opens
pub mod Gone
pub mod Steps
pub mod AskedEnds
