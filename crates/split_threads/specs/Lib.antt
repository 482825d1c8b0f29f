pub mod Rules
pub mod Workers
pub mod Dealt
pub mod Backs
pub mod Parted
pub mod Ends
pub mod Rounds
pub mod Opens
pub use Rattle.thread_laws.specs as thread_laws
pub use Rattle.thread_laws.specs.world_view_laws as world_view_laws
pub use Rattle.split_world.specs.world_parts as world_parts
