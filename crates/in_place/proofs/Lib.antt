mod Cleaned
mod CleansReading
mod TailsTails
pub mod ZerosReading
pub mod Places
pub mod Zeroed
pub mod ZeroReads
pub mod Writes
pub mod Lost
pub mod Blocks
pub mod Answered
pub mod Past
mod Ranges
mod Placed
pub mod Present
mod Counting
mod Absent
mod Piece
mod Onward
mod Entries
mod Filling
mod Filled
pub use Rattle.live_step_laws.proofs.k_split_laws_proofs as k_split_laws_proofs
pub use Rattle.write_plan.proofs.live_model_proofs
pub use Rattle.live_step_laws.proofs as live_step_laws_proofs
pub use Rattle.write_plan.proofs as write_plan_proofs
