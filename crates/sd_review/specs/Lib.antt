pub mod Compared
pub mod Laws
pub mod Lines
pub mod Origin
pub mod Review
