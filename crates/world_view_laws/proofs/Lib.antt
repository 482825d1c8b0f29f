pub mod OpenCalls
pub mod PosixLosing
pub mod Modes
pub mod PosixLines
pub mod Losing
pub mod Ending
pub mod Landing
pub mod Finishing
pub mod Rounds
pub mod Handing
pub mod Crashing
pub mod Leaving
pub mod Beginning
pub mod Holes
pub use Rattle.write_end.proofs as write_end_proofs
pub use Rattle.file_publish.proofs as file_publish_proofs
pub use Rattle.in_flight.proofs.open_files_proofs as open_files_proofs
pub use Rattle.in_flight.proofs as in_flight_proofs
