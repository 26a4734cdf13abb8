pub mod Numbers
pub mod Bounds
pub mod Over
pub mod Stretches
pub mod Shows
