pub mod Drawn
pub mod Load
pub mod Summary
pub mod Rows
