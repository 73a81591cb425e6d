pub mod Judgement
pub mod Tally
