mod Counts
mod Claiming
mod Marking
mod Seating
pub mod Allowing
pub mod Resting
pub mod Founding
pub mod Ends
pub mod Gathering
pub mod Slots
pub mod Leaving
