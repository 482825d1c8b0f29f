pub mod Backs
pub mod Named
pub mod Words
pub mod Devices
pub mod Cleared
mod Entries
pub mod Standing
mod Begun
pub mod Restaged
mod Reserved
mod Filled
mod Holed
pub use Rattle.k_split_laws.proofs.k_plans_proofs as k_plans_proofs
pub use Rattle.k_split_laws.proofs.k_tables_proofs as k_tables_proofs
pub use Rattle.live_model.proofs as live_model_proofs
pub use Rattle.live_model.proofs.open_files_proofs as open_files_proofs
pub use Rattle.live_model.proofs.staging_files_proofs
pub use Rattle.fsync_relink.proofs as fsync_relink_proofs
pub use Rattle.k_split_laws.proofs as k_split_laws_proofs
