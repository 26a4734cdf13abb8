pub mod Begun
pub mod Items
