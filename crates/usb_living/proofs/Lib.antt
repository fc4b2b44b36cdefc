pub mod Offered
pub mod Rows
