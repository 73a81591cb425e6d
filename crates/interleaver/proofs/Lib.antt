pub mod Expanded
pub mod Formats
pub mod Laws
pub mod Tables
pub mod Walks
