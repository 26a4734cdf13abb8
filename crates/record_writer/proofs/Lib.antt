pub mod Digits
pub mod Fill
