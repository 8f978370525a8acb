pub mod Tree
pub mod Verdicts
pub mod Propagation
pub mod Remaining
pub mod Laws
