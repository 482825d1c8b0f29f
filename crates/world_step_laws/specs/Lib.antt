pub mod Heights
pub mod Mirrors
pub mod Rows
pub mod Sums
pub mod Counts
pub mod SpacesLaws
pub mod Spaces
pub mod Touched
pub mod Steps
pub mod Parts
pub mod NameTables
pub mod Ages
pub mod Makers
pub mod Nameless
pub mod Worlds
pub mod StepsLaws
pub mod NamesLaws
pub mod MadeCalls
pub mod GoneCalls
pub mod RemoveCalls
pub mod RenameCalls
pub mod OtherCalls
pub use Rattle.commute_laws.specs.block_counts
pub use Rattle.commute_laws.specs as commute_laws
pub use Rattle.commute_laws.specs.crash_spec
pub use Rattle.volume_change_laws.specs.image_model
pub use Rattle.volume_change_laws.specs.extent_model
pub use Rattle.volume_change_laws.specs.k_split_model
pub use Rattle.volume_change_laws.specs.layout_model
pub use Rattle.commute_laws.specs.list_laws
pub use Rattle.world_model.specs.name_laws as name_laws
pub use Rattle.volume_change_laws.specs.pm_model
pub use Rattle.world_model.specs.posix_laws
pub use Rattle.commute_laws.specs.posix_spec
pub use Rattle.commute_laws.specs.posix_types
pub use Rattle.commute_laws.specs.posix_tables
pub use Rattle.volume_change_laws.specs as volume_change_laws
pub use Rattle.world_model.specs.volume_laws
pub use Rattle.world_model.specs as world_model
