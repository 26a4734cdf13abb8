pub mod Laws
pub mod OneRecord
pub mod Moves
pub mod Drifts
