pub mod Kleene
pub mod Forms
pub mod Parts
pub mod Listed
