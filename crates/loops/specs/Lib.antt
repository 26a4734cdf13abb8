pub mod Planned
pub mod Counted
pub mod Theorems
pub mod Stages
pub mod Halves
