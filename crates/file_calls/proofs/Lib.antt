mod CallTables
mod Trees
pub mod Running
mod NameCalls
mod Halves
mod Paths
pub mod OpenCalls
mod CutCalls
mod Ends
mod OpenEnds
mod Shut
pub mod CloseCalls
mod Lists
mod Sizes
pub mod ReadCalls
mod GatheredContents
pub mod CanRuns
pub mod Seen
pub mod Gathered
mod Alike
mod LookEnds
mod ReadEnds
mod GatheredOpens
pub use Rattle.eof_laws.proofs as eof_laws_proofs
pub use Rattle.live_step_laws.proofs.k_split_laws_proofs as k_split_laws_proofs
pub use Rattle.live_step_laws.proofs.live_model_proofs
pub use Rattle.live_step_laws.proofs as live_step_laws_proofs
pub use Rattle.live_step_laws.proofs.open_files_proofs
