pub mod Halves
pub mod Words
pub mod Tokens
pub mod Compared
