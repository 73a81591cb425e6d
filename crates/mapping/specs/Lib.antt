pub mod Columns
pub mod Labels
