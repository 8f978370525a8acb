pub mod Row
pub mod Kept
pub mod Names
pub mod Texts
pub mod Words
