pub mod Reader
pub mod Samples
pub mod Text
