pub mod Acted
pub mod Changes
pub mod Paid
pub mod Held
pub mod EventsPaid
pub mod Between
pub mod EventsLaws
pub mod Course
pub mod Runs
pub mod CourseLaws
pub use Rattle.world_view_laws.specs.crash_spec
pub use Rattle.round_log.specs.image_model
pub use Rattle.world_view_laws.specs.file_calls as file_calls
pub use Rattle.world_view_laws.specs.image_layout as image_layout
pub use Rattle.world_view_laws.specs.k_split_model
pub use Rattle.round_log.specs.layout_model
pub use Rattle.world_view_laws.specs.block_io as block_io
pub use Rattle.world_view_laws.specs.list_laws
pub use Rattle.world_view_laws.specs.live_model
pub use Rattle.world_view_laws.specs.write_end as write_end
pub use Rattle.round_log.specs.oplog_entry
pub use Rattle.round_log.specs.pm_model
pub use Rattle.world_view_laws.specs.posix_laws
pub use Rattle.world_view_laws.specs.posix_spec
pub use Rattle.world_view_laws.specs.posix_types
pub use Rattle.world_view_laws.specs.posix_tables
pub use Rattle.round_log.specs as round_log
pub use Rattle.world_view_laws.specs.in_flight as in_flight
pub use Rattle.world_view_laws.specs.volume_laws
pub use Rattle.world_view_laws.specs.world_image_laws
pub use Rattle.world_view_laws.specs as world_view_laws
pub use Rattle.world_view_laws.specs.write_jobs as write_jobs
