pub mod Device
pub mod File
pub mod Identity
pub mod Input
pub mod Interfaces
pub mod Laws
pub mod Lines
