pub mod Kept
pub mod Versions
pub mod Desk
pub mod Laws
