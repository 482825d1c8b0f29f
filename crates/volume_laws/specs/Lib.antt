pub mod ChainLaws
pub mod RuleLaws
pub mod Changes
pub mod Footprint
pub mod FootprintLaws
pub mod ImageLaws
pub mod LineWords
pub mod Lists
pub mod LoanLaws
pub mod Reading
pub mod ReadingLaws
pub mod SetLaws
pub mod StateLaws
pub mod VolumesLaws
pub mod BoundLaws
pub mod KeptLaws
pub mod UsesLaws
pub mod OwnerLaws
pub mod PoolLaws
pub mod Staged
pub mod StagedLaws
pub mod UseLaws
pub mod Uses
pub use Rattle.image_model.specs.block_counts
pub use Rattle.image_model.specs as image_model
pub use Rattle.image_model.specs.extent_model as extent_model
pub use Rattle.image_model.specs.layout_model
pub use Rattle.image_model.specs.pm_model
