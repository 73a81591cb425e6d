pub mod Descriptor
pub mod Headers
pub mod Marker
pub mod Words
