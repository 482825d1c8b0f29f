pub mod Scripts
pub mod SameNames
pub mod SameTrees
