pub mod Attribute
pub mod Value
pub mod Operator
pub mod Stack
pub mod Tree
pub mod Growing
pub mod Text
pub mod Laws
