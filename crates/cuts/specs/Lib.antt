pub mod Cuts
pub mod Propagation
