pub mod FoundLaws
pub mod CheckedLaws
pub mod RestagedLaws
pub mod InOrder
pub mod Kept
pub mod Heads
