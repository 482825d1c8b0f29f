pub use Rattle.image_layout.specs.layout_model as layout_model
pub use Rattle.image_layout.specs.layout_model.pm_model as pm_model
pub use Rattle.image_layout.specs as image_layout
