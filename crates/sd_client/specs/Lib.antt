pub mod Whole
pub mod Level
pub mod Claim
pub mod Client
pub mod Word
pub mod Laws
