pub mod Printed
pub mod Randomized
pub mod Stored
