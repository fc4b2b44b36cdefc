pub mod Comparison
pub mod Expanded
pub mod Expected
pub mod Macros
pub mod Parts
pub mod Settling
pub mod Table
pub mod Tests
