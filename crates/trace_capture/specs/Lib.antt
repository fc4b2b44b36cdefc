pub mod Event
pub mod Control
pub mod Transfer
pub mod Events
pub mod Vectors
pub mod Laws
