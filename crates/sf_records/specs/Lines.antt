-- Scans that write a line for each record.
pub use Rattle.sf_forms.specs.makers.Forms.{line_of, scanning}
