pub mod Listing
pub mod Node
pub mod Plans
pub mod Sharing
pub mod Sizes
pub mod Stored
pub mod View
