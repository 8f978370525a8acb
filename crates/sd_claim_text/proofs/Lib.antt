pub mod Digits
pub mod Loops
pub mod Lengths
pub mod PrintedNames
