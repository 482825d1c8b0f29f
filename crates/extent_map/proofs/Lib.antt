pub mod Between
pub mod Found
pub mod Grown
pub mod Whole
