pub mod Rounds
pub mod Forward
pub mod Best
pub mod Verdict
pub mod Fill
pub mod Span
pub mod Labels
