mod Entries
mod StandingGathering
mod StandingPublishing
pub mod Gone
pub mod Based
pub mod Lapping
pub mod Lives
pub mod Relinked
pub mod RelinksStanding
pub mod Cut
pub mod Kept
pub mod RelinksPublishing
pub mod Cutting
pub mod Tables
pub mod GathersGathering
pub mod Beside
pub mod Out
pub mod Home
pub mod Files
pub use Rattle.log_checkpoint.proofs.fsync_relink_proofs as fsync_relink_proofs
pub use Rattle.log_checkpoint.proofs.k_split_proofs
pub use Rattle.live_step_laws.proofs.live_model_proofs as live_model_proofs
pub use Rattle.log_checkpoint.proofs as log_checkpoint_proofs
pub use Rattle.log_checkpoint.proofs.staging_files_proofs
