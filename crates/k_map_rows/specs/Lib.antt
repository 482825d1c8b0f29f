pub mod Calm
pub mod Lends
