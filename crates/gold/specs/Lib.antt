pub mod Generator
pub mod Gold
