pub mod Randomizer
pub mod Tables
