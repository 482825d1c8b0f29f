pub mod ScanLaws
pub mod EntryWords
