pub mod Token
pub mod Index
pub mod Check
pub mod Fold
pub mod Laws
