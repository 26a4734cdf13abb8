pub mod Rules
pub mod Files
