pub mod Distances
pub mod Laws
mod Turns
