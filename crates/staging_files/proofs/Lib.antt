pub mod StagedLaws
pub mod AgreeLaws
pub mod RoomLaws
pub mod GiveUpLaws
pub mod ReserveLaws
pub use Rattle.k_split.proofs as k_split_proofs
pub use Rattle.k_split.proofs.k_plans_proofs as k_plans_proofs
