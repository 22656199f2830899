pub mod Convert
pub mod Pass
