pub mod Texts
pub mod Lists
pub mod Lines
pub mod Made
pub mod FirstWords
