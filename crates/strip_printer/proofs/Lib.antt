pub mod Text
pub mod Blocks
pub mod Theorems
