pub mod Pipe
pub mod Skims
pub mod Taken
pub mod Scripts
pub mod Feeds
