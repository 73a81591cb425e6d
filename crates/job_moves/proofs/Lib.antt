pub mod Bytes
pub mod Checked
pub mod Printings
