pub mod Behind
pub mod Inserted
pub mod Places
pub mod Turns
