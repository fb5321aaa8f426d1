pub mod Carrying
pub mod Placing
pub mod Turning
pub mod View
