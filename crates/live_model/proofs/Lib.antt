pub mod OverlaysOverlays
mod Members
pub mod FlightsFlights
pub mod Readable
pub use Rattle.write_jobs.proofs as write_jobs_proofs
pub use Rattle.open_files.proofs as open_files_proofs
pub use Rattle.staging_files.proofs as staging_files_proofs
