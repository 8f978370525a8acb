pub mod FromFirst
pub mod SameAces
