pub mod Audits
pub mod Errors
pub mod Marks
pub mod Rules
pub mod Sights
pub mod Workers
