pub mod CommandLine
pub mod Flags
pub mod Laws
pub mod UsageError
pub mod Options
pub mod Version
