pub mod Wrong
pub mod Ranged
pub mod Known
pub mod Marks
