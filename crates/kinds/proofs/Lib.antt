pub mod Averaging
pub mod GridBases
pub mod Leasts
