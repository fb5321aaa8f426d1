pub mod DecimalText
pub mod PriceReading
pub mod Pricing
