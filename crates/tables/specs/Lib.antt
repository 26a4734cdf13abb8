pub mod Tables
pub mod Reads
pub mod Entries
pub mod Moves
pub mod Before
pub mod Sizes
pub mod Stretches
pub mod Known
