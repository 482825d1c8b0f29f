pub mod Acting
pub mod EndsLines
pub mod Counts
pub mod Ready
pub mod Taking
pub mod Rounds
pub mod Runs
pub mod StartsLines
pub mod Trees
pub mod Going
pub mod Begun
pub use Rattle.log_replay.proofs as log_replay_proofs
pub use Rattle.world_view_laws.proofs as world_view_laws_proofs
