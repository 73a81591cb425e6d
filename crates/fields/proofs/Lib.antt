pub mod Cuts
pub mod Digits
pub mod Numbers
pub mod Scans
