pub mod Works
pub mod Events
pub mod Runs
pub use Rattle.split_world.specs.log_replay.Laws as MountLaws
pub use Rattle.split_world.specs.log_replay.Sheds
pub use Rattle.split_world.specs.log_replay.Mounts
pub use Rattle.split_world.specs.log_replay.Resets
pub use Rattle.split_world.specs.log_replay.Sweeps
pub use Rattle.split_world.specs.log_replay.k_check as k_check
pub use Rattle.run_laws.specs as run_laws
pub use Rattle.run_laws.specs.world_view_laws as world_view_laws
pub use Rattle.run_laws.specs.world_view_laws.file_calls.Built
pub use Rattle.run_laws.specs.world_image_laws as world_image_laws
pub use Rattle.run_laws.specs.world_image_laws.image_laws as image_laws
pub use Rattle.run_laws.specs.live_model.k_split.k_tables as k_tables
pub use Rattle.run_laws.specs.live_model.world_model as world_model
pub use Rattle.run_laws.specs.crash_spec as crash_spec
pub use Rattle.run_laws.specs.image_model as image_model
pub use Rattle.run_laws.specs.k_split_model as k_split_model
pub use Rattle.run_laws.specs.posix_laws as posix_laws
pub use Rattle.run_laws.specs.volume_laws as volume_laws
pub use Rattle.split_world.specs as split_world
