pub mod Lists
pub mod Front
