pub mod ByteLaws
mod Again
mod Beside
mod Changed
mod ChangeLaws
mod Commits
mod ContentLaws
mod FillLands
mod Fills
mod Joined
mod Powered
mod Lacking
mod LandLaws
pub mod LoanLaws
pub mod LogLaws
mod LogOut
mod LookLaws
mod MapAnswers
mod MapChanged
mod MapJoined
mod MapLands
mod OpenLaws
mod Ready
mod Released
mod Relinks
mod ResetLaws
mod StagedBytes
mod Steady
mod TreeLaws
pub use Rattle.k_tables.proofs as k_tables_proofs
pub use Rattle.k_map_plans.proofs.k_plans_proofs as k_plans_proofs
