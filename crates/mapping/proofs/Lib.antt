pub mod Rows
pub mod Xor
