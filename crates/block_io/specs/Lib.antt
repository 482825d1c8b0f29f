pub mod Overwrites
pub mod Puts
pub mod Lines
pub use Rattle.k_split_model.specs.block_counts
pub use Rattle.k_split_model.specs.image_model
pub use Rattle.extent_map.specs.extent_model
pub use Rattle.k_split_model.specs as k_split_model
pub use Rattle.k_split_model.specs.layout_model
pub use Rattle.pm_lines.specs.pm_model
