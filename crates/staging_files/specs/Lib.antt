pub mod Keeps
pub mod Reserves
pub mod GivesUp
pub mod FewRuns
pub use Rattle.k_split.specs as k_split
pub use Rattle.k_split.specs.image_laws as image_laws
pub use Rattle.k_split.specs.k_plans as k_plans
pub use Rattle.k_split.specs.k_map_plans as k_map_plans
pub use Rattle.k_split.specs.volume_change_laws as volume_change_laws
pub use Rattle.k_split.specs.volume_laws as volume_laws
pub use Rattle.k_split.specs.block_io as block_io
pub use Rattle.k_split.specs.image_model as image_model
pub use Rattle.k_split.specs.image_layout as image_layout
pub use Rattle.k_split.specs.k_tables as k_tables
pub use Rattle.k_split.specs.k_journal as k_journal
pub use Rattle.k_split.specs.k_split_model as k_split_model
pub use Rattle.k_split.specs.posix_laws as posix_laws
pub use Rattle.k_split.specs.posix_spec as posix_spec
pub use Rattle.k_split.specs.layout_model as layout_model
pub use Rattle.k_split.specs.extent_model as extent_model
pub use Rattle.k_split.specs.list_laws as list_laws
pub use Rattle.k_split.specs.posix_types as posix_types
pub use Rattle.k_split.specs.posix_tables as posix_tables
pub use Rattle.pm_lines.specs.pm_model as pm_model
