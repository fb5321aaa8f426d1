pub mod Asking
pub mod View
