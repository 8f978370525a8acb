pub mod Entry
pub mod Acl
pub mod Create
pub mod Propagation
pub mod Laws
