pub mod Told
pub mod Laws
pub mod Ways
pub mod Tests
pub mod TestSums
