pub mod LandingLaws
pub mod Landings
pub mod LandingsLaws
pub mod Maps
pub mod MapPlans
pub mod PlanLaws
pub mod LandingsPlans
pub mod WrittenLaws
pub mod Free
pub mod Giving
pub mod PlansLaws
pub mod Making
pub mod PlansPlans
pub mod Removing
pub mod Renaming
pub mod Switching
pub mod View
pub mod Whole
pub mod WholeLaws
pub use Rattle.k_reading.specs.block_pool
pub use Rattle.k_tables.specs.image_model
pub use Rattle.extent_map.specs.extent_model
pub use Rattle.k_reading.specs.image_laws
pub use Rattle.k_journal.specs.image_layout
pub use Rattle.k_journal.specs as k_journal
pub use Rattle.k_tables.specs.k_split_model
pub use Rattle.k_tables.specs as k_tables
pub use Rattle.layout_model.specs as layout_model
pub use Rattle.posix_types.specs as posix_types
pub use Rattle.k_tables.specs.posix_tables
pub use Rattle.volume_change_laws.specs as volume_change_laws
pub use Rattle.map_chain.specs.volume_laws as volume_laws
