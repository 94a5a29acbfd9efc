pub mod MakerLemmas
pub mod CsvReading
pub mod Decimals
pub mod Escaping
pub mod Filling
pub mod Floats
pub mod Givens
pub mod Growing
mod Heading
pub mod InPlace
pub mod Joining
pub mod JsonReading
pub mod JsonUtf8
pub mod JsonWriting
pub mod Lone
pub mod Numerals
mod QuotedBytes
pub mod Quoting
pub mod ReadingRows
pub mod RecordRows
pub mod Rooms
pub mod Short
pub mod TableReading
