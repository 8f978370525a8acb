mod LawProofs
mod PropagationProofs
