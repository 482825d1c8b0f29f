pub mod Numbers
pub mod Plans
mod PartPlans
mod PartGoes
mod Fronts
pub mod Making
pub mod Staged
mod Maps
pub mod Steps
pub mod Spared
pub mod Losses
pub mod Runs
pub mod Cleared
pub mod BeginsAsked
mod Placing
pub mod Begun
pub mod JobNeeds
pub use Rattle.write_plan.proofs as write_plan_proofs
pub use Rattle.in_place.proofs as in_place_proofs
