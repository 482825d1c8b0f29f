pub mod Crashes
pub mod Rooms
pub mod Slots
pub use Rattle.check_image.specs.k_reading as k_reading
pub use Rattle.check_image.specs.image_model as image_model
pub use Rattle.check_image.specs.k_journal as k_journal
pub use Rattle.check_image.specs.volume_laws as volume_laws
pub use Rattle.extent_map.specs.extent_model as extent_model
pub use Rattle.image_layout.specs.layout_model as layout_model
pub use Rattle.pm_lines.specs.pm_model as pm_model
