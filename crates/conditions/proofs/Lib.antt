pub mod Piling
pub mod States
pub mod Summing
