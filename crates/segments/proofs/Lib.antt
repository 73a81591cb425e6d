pub mod Checked
