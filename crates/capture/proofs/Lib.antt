pub mod Checked
pub mod Laws
pub mod Passing
pub mod Repeated
pub mod Tallies
pub mod Texts
