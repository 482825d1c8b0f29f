mod Moved
mod OwnBytes
pub mod RelinkLaws
pub mod ImageLaws
pub mod WorldLaws
pub mod StagingLaws
pub mod NextLaws
pub mod WayLaws
pub mod PublishedLaws
pub mod LoggedLaws
pub mod SizedLaws
pub mod OtherLaws
pub mod EntryLaws
pub use Rattle.k_split.proofs.k_plans_proofs
pub use Rattle.log_laws.proofs as log_laws_proofs
