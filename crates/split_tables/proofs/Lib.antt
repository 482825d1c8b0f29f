pub use Rattle.split_sessions.proofs.split_top_proofs as split_top_proofs
