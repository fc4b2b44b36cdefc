pub mod Rule
pub mod Tokens
