pub mod Reads
pub mod Laws
pub use Rattle.k_split.specs as k_split
pub use Rattle.k_split.specs.image_laws as image_laws
pub use Rattle.k_split.specs.k_tables as k_tables
pub use Rattle.k_split.specs.k_map_plans as k_map_plans
pub use Rattle.k_split.specs.k_plans as k_plans
pub use Rattle.k_split.specs.name_laws as name_laws
pub use Rattle.k_split.specs.volume_change_laws as volume_change_laws
pub use Rattle.k_split.specs.volume_laws as volume_laws
pub use Rattle.data_route.specs as data_route
pub use Rattle.data_route.specs.map_collection as map_collection
pub use Rattle.k_split.specs.k_split_model as k_split_model
pub use Rattle.file_overlay.specs as file_overlay
