pub mod Left
pub mod LeftText
pub mod Gathered
