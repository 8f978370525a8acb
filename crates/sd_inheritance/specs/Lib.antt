pub mod Inheritance
