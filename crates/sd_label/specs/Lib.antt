pub mod Label
pub mod Under
pub mod Laws
