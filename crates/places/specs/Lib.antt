pub mod Replaced
pub mod OneField
