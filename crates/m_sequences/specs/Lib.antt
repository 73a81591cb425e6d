pub mod MSequences
pub mod Tables
