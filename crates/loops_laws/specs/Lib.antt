pub mod Numbered
pub mod Held
pub mod Spans
pub mod Set
pub mod File
