pub mod Above
pub mod Answers
pub mod Heads
pub mod LineRules
pub mod Marks
pub mod Readings
pub use Rattle.k_reading.specs as k_reading
pub use Rattle.k_reading.specs.image_laws as image_laws
pub use Rattle.k_journal.specs as k_journal
pub use Rattle.k_reading.specs.image_model as image_model
pub use Rattle.k_reading.specs.volume_laws as volume_laws
pub use Rattle.extent_map.specs.extent_model as extent_model
