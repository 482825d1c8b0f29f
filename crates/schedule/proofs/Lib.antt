pub mod Lowest
pub mod Picked
