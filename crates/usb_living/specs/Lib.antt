pub mod Asks
pub mod Offered
pub mod Rows
