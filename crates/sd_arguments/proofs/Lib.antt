pub mod LawProofs
