pub mod CountsJobs
pub mod CountsCounts
pub mod Claims
pub mod Waiting
pub mod Looks
pub mod Taking
pub use Rattle.live_model.proofs.open_files_proofs
