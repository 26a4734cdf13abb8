pub mod Places
pub mod Runs
pub mod Accepted
pub mod Held
pub mod Theorems
pub mod Worked
