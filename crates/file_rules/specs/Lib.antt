pub mod Fields
pub mod Decimals
pub mod PriceLine
pub mod PriceFile
pub mod Calls
