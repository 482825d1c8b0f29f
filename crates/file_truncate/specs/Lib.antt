pub mod Sizes
pub mod Truncates
pub use Rattle.file_calls.specs as file_calls
pub use Rattle.log_replay.specs as log_replay
