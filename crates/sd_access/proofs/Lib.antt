pub mod Answered
pub mod PlainIsChecked
