pub mod Lists
pub mod Moves
pub mod Allowing
pub mod Gathering
