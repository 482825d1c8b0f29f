pub mod Laid
pub mod Puts
pub mod Replays
pub mod Views
