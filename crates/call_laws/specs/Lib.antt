pub mod Calls
pub use Rattle.world_view_laws.specs.eof_laws
pub use Rattle.world_view_laws.specs.file_publish as file_publish
pub use Rattle.file_truncate.specs as file_truncate
pub use Rattle.world_view_laws.specs.in_flight as in_flight
pub use Rattle.world_view_laws.specs as world_view_laws
pub use Rattle.write_begin.specs as write_begin
