pub mod Files
pub use Rattle.block_counts.specs as block_counts
pub use Rattle.layout_model.specs as layout_model
pub use Rattle.layout_model.specs.pm_model as pm_model
pub use Rattle.file_overlay.specs as file_overlay
pub use Rattle.file_overlay.specs.extent_model as extent_model
