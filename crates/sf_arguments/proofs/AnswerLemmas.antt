pub mod Escapes
pub mod ScanTexts
