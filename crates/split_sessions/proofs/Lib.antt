pub use Rattle.split_top.proofs as split_top_proofs
