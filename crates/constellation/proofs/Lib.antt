pub mod Rings
pub mod Turns
