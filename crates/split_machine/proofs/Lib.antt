pub mod Jobs
pub mod Parted
pub mod Found
pub mod Begins
pub mod Steps
pub mod Ends
pub mod Opened
pub mod Looks
pub mod Loop
pub use Rattle.split_world.proofs.log_replay_proofs.LapImages
pub use Rattle.run_laws.proofs as run_laws_proofs
