pub mod Cited
pub mod Cutting
pub mod InOrder
pub mod Steps
mod Characters
