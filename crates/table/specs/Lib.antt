pub mod Sorts
pub mod Table
