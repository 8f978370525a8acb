pub mod Cited
pub mod Moved
pub mod PathBytes
pub mod PathTexts
pub mod Paths
