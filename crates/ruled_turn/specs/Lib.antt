pub mod Standings
pub mod Rule
pub mod Steps
pub mod Passes
pub use Rattle.list_laws.specs as list_laws
