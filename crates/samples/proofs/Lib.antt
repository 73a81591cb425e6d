pub mod DigitTable
pub mod Lines
pub mod Pairs
pub mod Texts
pub mod Words
pub mod Written
