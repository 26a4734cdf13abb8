pub mod Outputs
pub mod OtherMarks
pub mod Theorems
pub mod Worked
