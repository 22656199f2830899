pub mod Number
pub mod Record
pub mod Operand
pub mod Meaning
pub mod Interpret
pub mod Told
pub mod Bench
pub mod Works
