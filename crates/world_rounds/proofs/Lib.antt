mod Finishes
mod Fronts
pub mod Lost
mod GivesUp
pub mod Settles
mod Lapping
mod Checking
mod Endings
pub use Rattle.world_parts.proofs as world_parts_proofs
pub use Rattle.round_laws.proofs as round_laws_proofs
