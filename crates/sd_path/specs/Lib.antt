pub mod Names
pub mod PathText
