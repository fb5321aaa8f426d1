pub mod Closes
pub mod Layers
pub mod Meaning
pub mod Piles
pub mod Sums
pub mod Layering
