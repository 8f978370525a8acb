pub mod TextAnswer
pub mod Each
pub mod Input
pub mod Output
