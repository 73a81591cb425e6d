pub mod Division
pub mod Bch
pub mod Register
