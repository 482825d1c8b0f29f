pub mod FieldLaws
pub mod Fields
pub mod Journal
pub mod PlaceLaws
pub mod Places
pub mod SuperLaws
pub mod Superblock
pub mod Entries
pub mod EntryLaws
pub mod Fresh
pub mod LineLaws
pub mod Lines
pub mod NameLaws
pub mod Names
pub mod RowLaws
pub mod TableLaws
pub mod Tables
pub mod UpLaws
pub mod Laws
pub mod Spelling
pub use Rattle.block_counts.specs as block_counts
pub use Rattle.pm_model.specs as pm_model
