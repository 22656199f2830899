pub mod Converted
