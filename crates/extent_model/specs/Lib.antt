pub mod Extents
pub mod Maps
pub mod Moves
pub mod Counts
pub mod Covers
pub mod Facts
pub mod Spelling
