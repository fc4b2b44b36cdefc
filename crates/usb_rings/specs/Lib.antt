pub mod Places
pub mod Memory
pub mod Written
pub mod Ring
pub mod Chain
pub mod Line
pub mod View
