pub mod ForestLaws
pub mod Forests
pub mod KeptLaws
pub mod NameLinesLaws
pub mod RowLaws
pub mod SetLaws
pub mod WalkLaws
pub mod EntryLaws
pub mod HeightLaws
pub mod SpacesLaws
pub mod LookLaws
pub mod PathLaws
pub mod Paths
pub mod RefusalLaws
pub mod RenameLaws
pub mod RenameRefusals
pub mod RowLists
pub mod TreeLaws
pub use Rattle.volume_laws.specs.block_counts
pub use Rattle.volume_laws.specs.image_model
pub use Rattle.volume_laws.specs.extent_model
pub use Rattle.k_split_model.specs as k_split_model
pub use Rattle.volume_laws.specs.layout_model
pub use Rattle.volume_laws.specs.pm_model
pub use Rattle.k_split_model.specs.posix_types
pub use Rattle.k_split_model.specs.posix_tables
pub use Rattle.volume_laws.specs as volume_laws
