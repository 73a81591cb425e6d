pub mod Points
pub mod Rings
pub mod Table
