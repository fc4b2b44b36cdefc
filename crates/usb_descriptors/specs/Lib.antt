pub mod Pieces
pub mod Grammar
pub mod Items
pub mod Table
pub mod Descriptors
pub mod Reader
