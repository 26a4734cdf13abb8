pub mod GuardSums
pub mod SentenceSums
pub mod Found
