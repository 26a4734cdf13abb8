pub mod Numbers
pub mod Once
