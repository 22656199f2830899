pub mod Room
pub mod Steps
