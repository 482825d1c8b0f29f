mod Filling
mod Words
mod Blocks
mod Bytes
pub mod Begins
pub mod Ends
pub mod Framed
pub mod Staged
mod LendLaws
pub mod SettleLaws
