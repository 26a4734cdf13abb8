pub mod Kinds
pub mod Contents
pub mod Last
pub mod Laws
