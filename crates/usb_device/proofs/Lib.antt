pub mod Cuts
pub mod Appends
pub mod Fits
pub mod Feeds
pub mod Filled
pub mod Sizes
mod Skims
