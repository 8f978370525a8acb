pub mod Audit
pub mod Laws
pub mod Parts
