pub mod Cleared
pub mod Lowest
pub mod Marks
pub mod Places
