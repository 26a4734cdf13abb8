pub mod Small
pub mod Steps
pub mod At
