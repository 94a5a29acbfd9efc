pub mod by_lines
-- how a record is written
pub use Rattle.sf_forms.specs.JsonReading
pub use Rattle.sf_forms.specs.Quotes
pub use Rattle.sf_forms.specs.Tables
pub use Rattle.sf_forms.specs.declared.form
-- what a loop over records writes
pub mod Copied
pub mod Copies
pub mod Forms
pub mod InPlace
pub mod Judging
pub mod Laws
pub mod Lines
pub mod ReadingBack
pub mod Records
pub mod Texts
pub mod Turns
pub mod Works
