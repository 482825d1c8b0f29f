pub mod Broken
pub mod Chains
pub mod Checked
pub mod Content
pub mod FreshVolume
pub mod Honest
pub mod Kept
pub mod Listed
pub mod Live
pub mod LogRule
pub mod Placed
pub mod Reading
pub mod Room
pub mod Rules
pub mod Standing
pub mod Uses
pub mod Volume
pub use Rattle.layout_model.specs as layout_model
pub use Rattle.layout_model.specs.block_counts as block_counts
pub use Rattle.layout_model.specs.pm_model as pm_model
pub use Rattle.extent_model.specs as extent_model
