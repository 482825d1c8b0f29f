pub mod Views
pub mod Lines
pub mod Holes
pub mod Begins
pub mod Rounds
pub mod Jobs
pub mod Losses
pub mod Acts
pub mod Starts
pub mod Handed
pub mod Laws
pub mod PosixLosses
pub mod PosixLines
pub use Rattle.file_calls.specs.eof_laws.block_io as block_io
pub use Rattle.write_end.specs.write_jobs as write_jobs
pub use Rattle.write_end.specs as write_end
pub use Rattle.write_end.specs.in_place.write_plan as write_plan
pub use Rattle.in_flight.specs.crash_spec
pub use Rattle.file_calls.specs.eof_laws.image_model
pub use Rattle.file_calls.specs.eof_laws
pub use Rattle.file_calls.specs.eof_laws.file_table
pub use Rattle.file_calls.specs as file_calls
pub use Rattle.file_publish.specs as file_publish
pub use Rattle.in_flight.specs.image_layout as image_layout
pub use Rattle.in_flight.specs.k_journal
pub use Rattle.file_calls.specs.k_split_laws
pub use Rattle.in_flight.specs.k_split_model
pub use Rattle.in_flight.specs.list_laws
pub use Rattle.in_flight.specs.live_model
pub use Rattle.file_publish.specs.log_checkpoint
pub use Rattle.write_end.specs.oplog_entry
pub use Rattle.file_calls.specs.eof_laws.pm_model
pub use Rattle.in_flight.specs.posix_laws
pub use Rattle.in_flight.specs.posix_spec
pub use Rattle.in_flight.specs.posix_types
pub use Rattle.in_flight.specs.posix_tables
pub use Rattle.in_flight.specs as in_flight
pub use Rattle.in_flight.specs.volume_laws
pub use Rattle.in_flight.specs.world_image_laws
