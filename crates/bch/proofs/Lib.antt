pub mod Division
pub mod Generator
pub mod Laws
pub mod Registers
pub mod Words
