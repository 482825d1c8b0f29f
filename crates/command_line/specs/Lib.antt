pub mod Command
pub mod Seen
pub mod Statuses
pub use Rattle.image_layout.specs as image_layout
pub use Rattle.image_layout.specs.layout_model
pub use Rattle.pm_lines.specs.pm_model
pub use Rattle.script_text.specs.posix_spec
pub use Rattle.script_text.specs as script_text
pub use Rattle.schedule.specs.crash_spec
pub use Rattle.schedule.specs as schedule
