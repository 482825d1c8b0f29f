pub mod Calls
pub mod Numbers
pub mod Orders
pub mod Spelled
mod Beside
mod Fits
mod Held
mod Own
mod PartBlocks
pub use Rattle.live_model.proofs as live_model_proofs
pub use Rattle.open_files.proofs as open_files_proofs
pub use Rattle.live_model.proofs.write_jobs_proofs
