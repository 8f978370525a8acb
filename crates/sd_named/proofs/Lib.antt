pub mod Fields
pub mod Trustees
mod Once
