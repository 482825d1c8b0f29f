mod Chains
mod Fillings
mod Goings
mod Keeps
mod Landed
mod Lands
mod Links
mod Moves
mod Sizes
mod Stagings
mod StepLaws
mod StepLists
mod Refusals
mod Resets
pub use Rattle.k_plans.proofs as k_plans_proofs
