pub mod Pushes
pub mod Taking
