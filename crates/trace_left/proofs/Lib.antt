mod Lists
pub mod Turns
mod Events
mod Joined
mod ReadParts
pub mod Gathers
