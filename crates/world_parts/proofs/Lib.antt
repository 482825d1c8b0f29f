pub mod Adding
pub mod Losing
mod Nexts
pub use Rattle.world_view_laws.proofs as world_view_laws_proofs
pub use Rattle.world_view_laws.proofs.in_flight_proofs as in_flight_proofs
