pub mod Checked
pub mod Frames
pub mod Places
pub mod Sections
