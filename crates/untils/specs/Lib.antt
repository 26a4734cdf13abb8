pub mod Sums
pub mod Light
pub mod Steps
pub mod Untils
