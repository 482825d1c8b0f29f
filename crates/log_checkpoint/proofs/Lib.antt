pub mod Sums
pub mod Lines
pub mod Laps
pub mod Content
pub mod EndContent
pub use Rattle.fsync_relink.proofs as fsync_relink_proofs
pub use Rattle.staging_files.proofs as staging_files_proofs
pub use Rattle.staging_files.proofs.k_plans_proofs as k_plans_proofs
pub use Rattle.staging_files.proofs.k_split_proofs as k_split_proofs
