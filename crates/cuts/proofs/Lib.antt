pub mod Propagations
pub mod Scan
pub mod Segments
pub mod Sixteen
