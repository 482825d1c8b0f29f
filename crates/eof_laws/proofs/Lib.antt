pub mod Ending
pub mod MapsMaps
pub mod MapsFiles
mod Finished
pub use Rattle.log_checkpoint.proofs.k_plans_proofs as k_plans_proofs
