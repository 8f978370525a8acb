pub mod Cited
pub mod Answering
pub mod Lines
pub mod Workers
