pub mod Heights
pub mod Paths
