pub mod Files
pub mod Below
pub mod Normal
