pub mod ChainLists
pub mod FreshTables
pub mod LineWords
pub mod NameRows
pub mod UsedBlocks
pub mod UsedOwners
