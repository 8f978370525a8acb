pub mod Claim
pub mod Table
pub mod Writing
pub mod Reading
pub mod Memory
pub mod Laws
pub mod WorkedClaims
