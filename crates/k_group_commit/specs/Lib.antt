pub mod BesideLaws
pub mod Gathered
pub mod GatheredLaws
pub mod JoinLaws
pub mod Joins
pub mod MapJoins
pub mod OpenLaws
pub mod PlanJoins
pub mod StandingLaws
pub use Rattle.k_plans.specs.k_journal as k_journal
pub use Rattle.k_plans.specs as k_plans
pub use Rattle.k_plans.specs.k_split_model as k_split_model
pub use Rattle.k_plans.specs.volume_laws as volume_laws
pub use Rattle.k_plans.specs.image_model as image_model
pub use Rattle.k_plans.specs.layout_model as layout_model
pub use Rattle.pm_lines.specs.pm_model as pm_model
