pub mod Linked
pub mod Period
pub mod Recursions
