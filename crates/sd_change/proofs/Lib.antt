mod Kept
pub mod LawProofs
pub mod Within
