pub mod Question
pub mod Access
pub mod Limits
pub mod Laws
