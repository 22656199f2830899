pub mod Turns
pub mod Passes
pub mod Converts
pub mod Layouts
