pub mod Got
