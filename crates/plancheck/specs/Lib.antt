pub mod Named
pub mod OneLine
