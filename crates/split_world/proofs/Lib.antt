mod Opening
pub use Rattle.world_rounds.proofs.round_laws_proofs.log_replay_proofs as log_replay_proofs
