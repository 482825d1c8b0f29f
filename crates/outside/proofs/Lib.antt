pub mod KnownBytesMore
pub mod Replaced
mod Folders
