pub mod Cited
pub mod Steps
pub mod SameEntries
pub mod SameLists
pub mod NoLine
pub mod NothingDiffers
