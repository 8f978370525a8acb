pub mod Cited
pub mod Keeping
pub mod Lists
pub mod Moves
