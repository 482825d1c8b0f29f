pub mod Mounts
pub mod Taken
pub use Rattle.world_rounds.specs.round_laws.log_replay as log_replay
pub use Rattle.world_begins.specs.world_parts as world_parts
