pub mod Batch
pub mod Commits
pub mod Patches
pub mod Phases
pub mod Recoveries
pub use Rattle.image_layout.specs as image_layout
pub use Rattle.image_layout.specs.layout_model as layout_model
pub use Rattle.pm_lines.specs.pm_model as pm_model
