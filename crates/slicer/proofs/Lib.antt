pub mod Answers
pub mod Calls
pub mod Checked
pub mod Exits
