pub mod Codewords
pub mod Formats
pub mod Linear
pub mod Reading
pub mod Registers
pub mod Runs
pub mod Turns
