pub mod Checked
pub mod Lines
pub mod Reader
