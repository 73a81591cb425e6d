pub mod Frame
pub mod Calls
pub mod Places
