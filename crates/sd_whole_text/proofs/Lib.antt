pub mod Cited
pub mod Digits
pub mod PlainTexts
