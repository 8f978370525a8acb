pub mod Mask
pub mod Mapping
pub mod Sid
pub mod SidParts
pub mod SidBytes
