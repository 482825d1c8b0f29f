pub mod Cuts
pub use Rattle.k_split.proofs.k_plans_proofs as k_plans_proofs
pub use Rattle.k_split.proofs as k_split_proofs
pub use Rattle.k_split.proofs.k_tables_proofs as k_tables_proofs
