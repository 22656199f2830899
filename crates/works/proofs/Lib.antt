pub mod Rest
pub mod Order
