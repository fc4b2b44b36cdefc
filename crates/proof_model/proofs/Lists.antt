-- Lists: the pieces of one name, how often a number stands in a list, and lists of which some are left out.
pub mod Pieces
pub mod Times
pub mod Parts
pub mod Rises
