pub mod Views
pub mod Rule
pub mod Steps
pub mod Seats
pub mod Logs
pub mod Answers
pub mod Closing
pub use Rattle.oplog_entry.specs.image_model as image_model
pub use Rattle.layout_model.specs as layout_model
pub use Rattle.pm_lines.specs.pm_model as pm_model
pub use Rattle.oplog_entry.specs as oplog_entry
