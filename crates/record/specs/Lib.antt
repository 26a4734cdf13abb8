pub mod Spelling
pub mod Spell
pub mod Layout
