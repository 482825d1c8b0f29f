pub mod BrokenLaws
pub mod CheckedLaws
pub mod ClaimLaws
pub mod ClimbLaws
pub mod Damage
pub mod DamageLaws
pub mod EntryRows
pub mod FreshLaws
pub mod FreshLines
pub mod HeadDamage
pub mod HonestLaws
pub mod KeptRules
pub mod Laws
pub mod LineDamage
pub mod LogDamage
pub mod MapDamage
pub mod TreeImages
pub mod TreeRows
pub mod ViewLaws
pub mod VolumeTests
pub use Rattle.volume_laws.specs as volume_laws
pub use Rattle.volume_laws.specs.image_model as image_model
pub use Rattle.volume_laws.specs.block_counts as block_counts
pub use Rattle.volume_laws.specs.layout_model as layout_model
pub use Rattle.volume_laws.specs.extent_model as extent_model
pub use Rattle.volume_laws.specs.pm_model as pm_model
