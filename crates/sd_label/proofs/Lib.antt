pub mod Labels
pub mod Under
pub mod Reasons
pub mod LawProofs
