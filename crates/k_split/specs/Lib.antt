pub mod Answers
pub mod Bytes
pub mod Contents
pub mod Faults
pub mod Filling
pub mod Gathers
pub mod Landed
pub mod Laps
pub mod Loans
pub mod LogLines
pub mod Looks
pub mod MapChanges
pub mod MapLanded
pub mod SizeLaws
pub mod Names
pub mod Order
pub mod Resets
pub use Rattle.k_tables.specs as k_tables
pub use Rattle.k_tables.specs.name_laws as name_laws
pub use Rattle.k_group_commit.specs as k_group_commit
pub use Rattle.k_map_plans.specs as k_map_plans
pub use Rattle.k_map_plans.specs.image_laws as image_laws
pub use Rattle.k_map_plans.specs.k_plans as k_plans
pub use Rattle.k_map_plans.specs.volume_change_laws as volume_change_laws
pub use Rattle.k_map_plans.specs.volume_laws as volume_laws
pub use Rattle.k_tables.specs.k_split_model as k_split_model
pub use Rattle.k_tables.specs.posix_laws as posix_laws
pub use Rattle.k_tables.specs.posix_spec as posix_spec
pub use Rattle.k_map_plans.specs.block_pool as block_pool
pub use Rattle.k_map_plans.specs.image_layout as image_layout
pub use Rattle.k_map_plans.specs.k_journal as k_journal
pub use Rattle.k_map_plans.specs.layout_model as layout_model
pub use Rattle.block_io.specs as block_io
pub use Rattle.block_io.specs.image_model as image_model
pub use Rattle.extent_map.specs.extent_model as extent_model
pub use Rattle.k_tables.specs.list_laws as list_laws
pub use Rattle.pm_lines.specs.pm_model as pm_model
pub use Rattle.posix_types.specs as posix_types
pub use Rattle.posix_tables.specs as posix_tables
pub use Rattle.posix_tables.specs.block_counts as block_counts
