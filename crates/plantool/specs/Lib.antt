pub mod Words
pub mod Once
