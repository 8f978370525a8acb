pub mod Cited
pub mod Answering
pub mod Dealing
pub mod Keeping
pub mod Marking
pub mod Prefixes
pub mod Publishes
