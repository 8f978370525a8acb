pub mod Cited
pub mod Masks
pub mod Mapped
pub mod Compared
pub mod SidWords
pub mod Outcomes
pub mod SidLaws
