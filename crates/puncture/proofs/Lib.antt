pub mod Count
pub mod Kept
pub mod Laid
pub mod Matched
pub mod Places
pub mod Positions
pub mod Slots
pub mod Zeroed
