pub mod Digits
pub mod Words
pub mod Parts
pub mod Trees
pub mod Units
