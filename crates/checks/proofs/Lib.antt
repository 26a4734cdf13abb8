pub mod Natural
pub mod Faultless
