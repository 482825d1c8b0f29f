mod Asked
mod Ending
mod Finishes
mod Fliers
mod GivesUp
mod Laid
pub mod Landed
mod EndsPending
mod Settled
pub mod LosingPending
pub mod Jobs
pub mod Going
pub mod Cut
mod Dropped
pub mod Ended
pub mod Homes
pub mod Stopped
pub mod Apart
pub mod LogLines
mod Acted
pub mod Crashed
pub use Rattle.in_place.proofs.k_split_laws_proofs.k_split_proofs
pub use Rattle.in_place.proofs.live_model_proofs.write_jobs_proofs as write_jobs_proofs
