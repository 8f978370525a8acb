pub mod Occurrence
pub mod Change
pub mod Inside
pub mod Laws
