pub mod Found
pub mod Refusals
pub mod TablesTrees
pub mod Files
pub mod Laws
pub mod ContentsTrees
pub use Rattle.name_laws.specs.image_model
pub use Rattle.name_laws.specs.extent_model
pub use Rattle.k_names.specs as k_names
pub use Rattle.name_laws.specs.k_split_model
pub use Rattle.layout_model.specs as layout_model
pub use Rattle.posix_laws.specs.list_laws
pub use Rattle.name_laws.specs as name_laws
pub use Rattle.layout_model.specs.pm_model
pub use Rattle.posix_laws.specs as posix_laws
pub use Rattle.posix_laws.specs.posix_spec
pub use Rattle.posix_tables.specs as posix_tables
pub use Rattle.name_laws.specs.volume_laws
