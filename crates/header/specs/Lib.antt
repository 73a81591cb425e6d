pub mod Marker
pub mod Descriptor
pub mod Header
pub mod Words
