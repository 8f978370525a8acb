pub mod Bounds
pub mod EntryText
pub mod Findings
