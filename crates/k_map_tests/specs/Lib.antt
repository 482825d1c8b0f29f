pub mod Calls
pub use Rattle.k_split.specs as k_split
pub use Rattle.k_check.specs.image_model as image_model
pub use Rattle.k_check.specs.k_journal as k_journal
pub use Rattle.k_split.specs.k_split_model as k_split_model
pub use Rattle.pm_lines.specs.pm_model as pm_model
