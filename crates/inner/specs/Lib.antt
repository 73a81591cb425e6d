pub mod Left
pub mod Lent
pub mod Registers
