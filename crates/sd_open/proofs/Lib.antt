pub mod Rest
pub mod LawProofs
