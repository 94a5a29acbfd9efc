pub mod EndsCopied
pub mod Digits
pub mod FourDigits
pub mod ThreeDigits
pub mod Numerals
pub mod OnlyNumeral
pub mod Copied
