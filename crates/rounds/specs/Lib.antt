pub mod Last
pub mod Bits
pub mod Rows
pub mod Search
pub mod Codes
