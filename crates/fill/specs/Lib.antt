pub mod Filled
pub mod Says
pub mod Told
pub mod Places
pub mod Steps
pub mod Turns
pub mod Theorems
