pub mod Checked
pub mod Codewords
pub mod Linear
