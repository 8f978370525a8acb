pub mod Cited
pub mod Words
pub mod OneToken
pub mod NoLines
