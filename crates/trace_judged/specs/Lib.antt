pub mod Expected
pub mod Gathered
pub mod Differences
pub mod Missing
pub mod Report
pub mod Text
