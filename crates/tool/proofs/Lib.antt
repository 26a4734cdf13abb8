pub mod Laws
pub mod Collected
