pub mod Members
pub mod Filters
pub mod Sums
pub mod Numbers
