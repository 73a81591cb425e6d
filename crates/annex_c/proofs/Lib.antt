pub mod Sizes
pub mod Test
