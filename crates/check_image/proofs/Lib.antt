pub mod ChainFacts
pub mod Fronts
pub mod Heads
pub mod LineFacts
pub mod MarkFacts
pub mod NameFacts
pub mod ReadFacts
pub mod UseFacts
pub mod Views
pub use Rattle.k_reading.proofs as k_reading_proofs
