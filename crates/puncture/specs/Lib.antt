pub mod Puncture
pub mod Slots
pub mod Table42
