-- What a scan writes of each record, in a form.
pub use Rattle.sf_forms.specs.makers.Forms.{record_text, row_text, writing}
