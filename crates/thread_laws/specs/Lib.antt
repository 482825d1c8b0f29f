pub mod Closed
pub mod States
pub mod Works
pub mod MovesLaws
pub mod WorksLaws
pub mod Returned
pub mod EndsLaws
pub mod Hands
pub mod Stands
pub mod Moves
pub mod TurnsLaws
pub mod Places
pub mod Jobs
pub mod Holders
pub mod Kept
pub use Rattle.oplog_tail.specs as oplog_tail
pub use Rattle.round_laws.specs.world_view_laws as world_view_laws
