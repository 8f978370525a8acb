pub mod Ace
pub mod Canonical
pub mod Dacl
pub mod Descriptor
