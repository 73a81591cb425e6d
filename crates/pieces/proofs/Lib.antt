pub mod Laws
pub mod Written
