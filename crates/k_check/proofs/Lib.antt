pub mod CheckFacts
pub mod CrashFacts
pub mod RecoverFacts
pub mod SlotFacts
pub use Rattle.check_image.proofs.k_reading_proofs as k_reading_proofs
