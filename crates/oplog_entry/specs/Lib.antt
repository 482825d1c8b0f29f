pub mod Scans
pub mod EntryBytes
pub mod EntryLines
pub mod LogLines
pub use Rattle.image_model.specs as image_model
pub use Rattle.layout_model.specs as layout_model
pub use Rattle.pm_lines.specs.pm_model as pm_model
