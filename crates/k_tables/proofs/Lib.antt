pub mod ChildNames
pub mod Entries
pub mod Heights
pub mod PathLists
pub mod Rooms
pub mod RowFacts
pub mod TreeLaws
pub mod WalkStops
mod ContentsContents
mod FileBytes
mod Listing
pub mod Reading
