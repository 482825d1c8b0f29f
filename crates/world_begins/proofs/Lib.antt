mod Finding
mod Going
mod Settled
pub mod Turning
mod Writing
mod Firsts
mod Calling
mod Composing
mod Rooming
pub use Rattle.call_laws.proofs as call_laws_proofs
pub use Rattle.world_parts.proofs as world_parts_proofs
