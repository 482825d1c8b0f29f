pub mod Stores
pub mod Rounds
pub mod Held
pub use Rattle.oplog_entry.specs as oplog_entry
pub use Rattle.oplog_entry.specs.image_model as image_model
pub use Rattle.layout_model.specs as layout_model
pub use Rattle.pm_lines.specs.pm_model as pm_model
