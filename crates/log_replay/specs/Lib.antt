pub mod Replays
pub mod Laws
pub mod NextLaps
pub mod Sheds
pub mod Quiet
pub mod Sweeps
pub mod Resets
pub mod Mounts
pub use Rattle.world_image_laws.specs.Changed
pub use Rattle.world_image_laws.specs.Images
pub use Rattle.fsync_relink.specs.log_laws.world_model.Landed
pub use Rattle.fsync_relink.specs.log_laws.Orders
pub use Rattle.k_split.specs.k_map_plans.Plans
pub use Rattle.k_split.specs.k_plans.View
pub use Rattle.k_split.specs.k_plans.Whole
pub use Rattle.k_split.specs.block_pool
pub use Rattle.k_check.specs as k_check
pub use Rattle.k_split.specs.k_journal
pub use Rattle.k_split.specs.k_map_plans
pub use Rattle.k_split.specs as k_split
