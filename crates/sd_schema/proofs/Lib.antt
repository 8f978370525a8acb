pub mod Utf8
pub mod Named
pub mod Cut
