pub mod Storing
pub mod Holding
