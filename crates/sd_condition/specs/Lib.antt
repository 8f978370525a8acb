pub mod Table
pub mod Stack
pub mod Writing
pub mod Reading
pub mod Memory
pub mod Laws
