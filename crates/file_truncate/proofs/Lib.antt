pub mod Sizing
pub mod Device
pub mod Sized
pub mod Cut
pub mod Zeros
mod Rows
mod Given
mod Asked
pub use Rattle.file_calls.proofs as file_calls_proofs
pub use Rattle.in_place.proofs.write_plan_proofs
