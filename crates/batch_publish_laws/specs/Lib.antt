pub mod Changes
pub mod Words
pub mod Named
pub use Rattle.live_model.specs as live_model
pub use Rattle.posix_mode_laws.specs as posix_mode_laws
pub use Rattle.batch_laws.specs as batch_laws
pub use Rattle.world_write_laws.specs as world_write_laws
pub mod ChangesLaws
pub mod CommittedLaws
pub mod Renewals
pub mod RenewalsLaws
pub mod Moves
pub mod CutsLaws
pub mod MovesLaws
pub mod Sizes
pub mod SizesLaws
pub mod CallsLaws
pub mod Closings
pub mod StillsLaws
pub mod ClosingsLaws
pub mod Joins
pub mod JoinsLaws
pub mod Laps
pub mod LapsLaws
pub mod LandingsLaws
pub mod Lengths
pub mod LengthsLaws
pub mod SyncsLaws
pub mod RoomsLaws
pub mod ShrinksLaws
