pub mod Bits
pub mod Checked
pub mod Joined
pub mod Linear
pub mod Outer
pub mod Runs
