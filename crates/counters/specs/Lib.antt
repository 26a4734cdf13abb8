pub mod Sum
pub mod Vectors
pub mod Values
pub mod Bounds
