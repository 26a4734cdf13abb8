pub mod Stops
pub mod Digits
pub mod Reading
pub mod Spelled
pub mod BadByte
pub mod Examples
