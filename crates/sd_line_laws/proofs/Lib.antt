pub mod Cited
mod Strings
mod Members
mod Objects
