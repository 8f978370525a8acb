pub mod Sddl
pub mod Trustee
pub mod Word
pub mod Arguments
pub mod File
pub mod Sids
