pub mod Reasons
pub mod Findings
pub mod Parts
pub mod Laws
