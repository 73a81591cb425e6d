pub mod AnnexC
pub mod Sizes
