pub mod Answer
pub mod Output
pub mod ByName
pub mod Names
pub mod Scripts
pub mod Types
