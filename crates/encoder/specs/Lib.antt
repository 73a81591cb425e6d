pub mod Calls
pub mod Codeword
