pub mod CleansLaws
pub mod Zeros
pub mod ZerosLaws
pub mod Gaps
pub mod Holes
pub mod Placing
pub mod PlaceLaws
pub use Rattle.live_step_laws.specs.block_counts
pub use Rattle.write_plan.specs.live_model.data_route
pub use Rattle.write_plan.specs.file_overlay
pub use Rattle.write_plan.specs.live_model.file_reads
pub use Rattle.write_plan.specs.live_model.file_table
pub use Rattle.live_step_laws.specs.k_split_laws as k_split_laws
pub use Rattle.live_step_laws.specs.layout_model
pub use Rattle.live_step_laws.specs.list_laws
pub use Rattle.write_plan.specs.live_model
pub use Rattle.live_step_laws.specs as live_step_laws
pub use Rattle.write_plan.specs.open_files
pub use Rattle.live_step_laws.specs.pm_model
pub use Rattle.live_step_laws.specs.world_image_laws
pub use Rattle.live_step_laws.specs.world_model
pub use Rattle.write_plan.specs as write_plan
