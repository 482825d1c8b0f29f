pub mod Devices
pub mod Found
pub mod Images
pub mod Jobs
pub mod Remounts
pub mod Runs
pub mod Top
pub mod Trials
pub mod Worlds
pub use Rattle.command_line.specs as command_line
