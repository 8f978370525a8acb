pub mod Answer
pub mod Error
pub mod Request
