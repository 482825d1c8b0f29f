pub mod Jobs
pub mod Filling
pub mod Contents
pub mod Blocks
pub mod Laws
pub mod Loans
pub use Rattle.world_write_laws.specs.commute_laws
pub use Rattle.k_split.specs.image_model
pub use Rattle.world_write_laws.specs.extent_model
pub use Rattle.k_split.specs.k_map_plans
pub use Rattle.k_split.specs as k_split
pub use Rattle.k_split.specs.k_split_model
pub use Rattle.layout_model.specs as layout_model
pub use Rattle.world_write_laws.specs.list_laws
pub use Rattle.pm_lines.specs.pm_model
pub use Rattle.world_image_laws.specs.posix_tables as posix_tables
pub use Rattle.world_write_laws.specs.volume_laws
pub use Rattle.world_image_laws.specs as world_image_laws
pub use Rattle.world_write_laws.specs.world_model
pub use Rattle.world_write_laws.specs.world_step_laws
pub use Rattle.world_write_laws.specs as world_write_laws
