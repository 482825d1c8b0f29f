pub mod Ends
pub mod Blocks
pub mod Lines
pub mod Lost
pub mod LosingLaws
pub mod Stops
pub mod Landing
pub mod CrashesLaws
pub use Rattle.in_place.specs.k_split_laws.block_io
pub use Rattle.oplog_entry.specs.image_model
pub use Rattle.in_place.specs as in_place
pub use Rattle.in_place.specs.k_split_laws.k_split
pub use Rattle.in_place.specs.k_split_laws.k_split_model
pub use Rattle.oplog_entry.specs.layout_model
pub use Rattle.in_place.specs.k_split_laws.list_laws
pub use Rattle.in_place.specs.live_model as live_model
pub use Rattle.oplog_entry.specs as oplog_entry
pub use Rattle.oplog_entry.specs.pm_model
pub use Rattle.in_place.specs.k_split_laws.posix_spec
pub use Rattle.in_place.specs.k_split_laws.posix_types
pub use Rattle.in_place.specs.k_split_laws.posix_tables
pub use Rattle.in_place.specs.k_split_laws.volume_laws
pub use Rattle.in_place.specs.live_model.write_jobs.world_image_laws as world_image_laws
pub use Rattle.in_place.specs.write_plan.eof_laws.log_checkpoint.world_model
pub use Rattle.in_place.specs.live_model.write_jobs as write_jobs
