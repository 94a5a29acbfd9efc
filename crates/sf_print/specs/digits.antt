pub mod Numeral
pub mod Decimals
