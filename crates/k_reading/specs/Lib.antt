pub mod Pools
pub mod Tables
pub use Rattle.image_laws.specs as image_laws
pub use Rattle.image_laws.specs.volume_laws as volume_laws
pub use Rattle.block_pool.specs as block_pool
pub use Rattle.k_names.specs as k_names
pub use Rattle.map_chain.specs.image_model as image_model
pub use Rattle.map_chain.specs.image_model.layout_model as layout_model
pub use Rattle.extent_map.specs.extent_model as extent_model
