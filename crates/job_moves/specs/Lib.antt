pub mod Moves
pub mod Printed
