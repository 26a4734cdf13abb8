pub mod Faults
pub mod Input
