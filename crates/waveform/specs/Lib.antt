pub mod Generators
pub mod Waveform
