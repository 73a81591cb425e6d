pub mod Generators
