pub mod Bits
pub mod Checked
pub mod Differing
pub mod Laws
pub mod Places
pub mod Repeated
