pub mod Jobs
pub mod Staying
pub mod Publishing
pub mod Running
pub mod Truncating
pub mod Rows
pub mod Filling
pub mod Putting
pub use Rattle.world_view_laws.proofs.in_flight_proofs as in_flight_proofs
pub use Rattle.world_view_laws.proofs as world_view_laws_proofs
