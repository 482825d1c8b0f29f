pub mod Claims
pub mod Example
pub mod ExampleEntry
pub mod ExampleJob
pub mod ExampleParts
pub mod Jobs
pub mod RulesLaws
pub mod Promised
pub mod Shown
pub mod Stands
pub mod TreeRules
pub mod Latest
pub mod Contents
pub mod Landed
pub mod Beside
pub mod JobLaws
pub mod Lent
pub mod Ends
pub mod PromiseLaws
pub mod Promise
pub mod Rules
pub mod Held
pub mod LogRules
pub mod LogRulesLaws
pub mod Lines
pub mod Pictures
pub mod Free
pub mod HeldLaws
pub use Rattle.name_laws.specs.block_counts
pub use Rattle.crash_spec.specs as crash_spec
pub use Rattle.name_laws.specs.image_model
pub use Rattle.name_laws.specs.extent_model
pub use Rattle.name_laws.specs.layout_model
pub use Rattle.crash_spec.specs.list_laws
pub use Rattle.name_laws.specs as name_laws
pub use Rattle.name_laws.specs.pm_model
pub use Rattle.crash_spec.specs.posix_laws as posix_laws
pub use Rattle.crash_spec.specs.posix_laws.posix_spec
pub use Rattle.crash_spec.specs.posix_laws.posix_types
pub use Rattle.crash_spec.specs.posix_laws.posix_tables
pub use Rattle.name_laws.specs.volume_laws as volume_laws
