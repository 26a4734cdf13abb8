pub mod Cases
pub mod Counted
pub mod Taking
pub mod Sound
